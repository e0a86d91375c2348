pub mod Bearers
pub mod Homes
pub mod Lists
pub mod Marks
pub mod NameLines
pub mod Names
pub mod Rows
