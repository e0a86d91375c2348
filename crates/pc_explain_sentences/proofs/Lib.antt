mod Least
pub mod Pushed
mod Reasons
