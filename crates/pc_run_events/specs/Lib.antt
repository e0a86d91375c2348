pub mod Posts
pub mod Events
pub mod Sights
pub mod Turns
pub mod Kept
pub mod Lines
pub mod Parts
