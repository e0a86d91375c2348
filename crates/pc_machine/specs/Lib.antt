pub mod Changed
pub mod Plans
pub mod States
pub mod Taken
pub mod Ran
pub mod Machines
pub mod Limits
