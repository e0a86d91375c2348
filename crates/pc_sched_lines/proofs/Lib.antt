mod Grouping
mod OneLine
pub mod Spelling
pub mod Spreads
