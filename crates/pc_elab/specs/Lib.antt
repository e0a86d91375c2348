pub mod Views
pub mod Rows
pub mod Slots
pub mod Outcomes
pub mod Cores
