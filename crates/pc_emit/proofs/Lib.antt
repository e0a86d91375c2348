pub mod Suffixes
pub mod Walks
pub mod Wholes
