pub mod formers
pub mod Limits
pub mod Counts
pub mod Lists
