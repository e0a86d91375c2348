pub mod Grouping
pub mod Growing
mod Ended
mod Adding
mod Finding
