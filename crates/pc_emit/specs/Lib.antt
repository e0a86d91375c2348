pub mod Closing
pub mod Giving
