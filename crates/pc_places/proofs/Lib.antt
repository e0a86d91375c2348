pub mod Searching
pub mod Methods
pub mod Fields
pub mod Joining
