mod Forms
mod Missing
pub mod Refusals
mod Simple
