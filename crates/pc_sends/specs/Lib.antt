pub mod Held
pub mod Covering
pub mod Tables
pub mod Growth
pub mod Reached
pub mod Example
pub mod Found
pub mod Unsent
