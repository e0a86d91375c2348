pub mod Mailed
pub mod Fields
pub mod Arguments
pub mod Reaching
pub mod Steps
pub mod Takes
pub mod Isolation
mod Passing
mod Examples
pub mod ForGood
