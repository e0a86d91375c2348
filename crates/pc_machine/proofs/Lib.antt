mod Changes
mod Stacked
mod Popped
mod Peopling
mod Entitled
mod Planned
mod Stepped
mod Foreseen
mod Allowed
mod Kept
mod Starting
pub mod Growing
