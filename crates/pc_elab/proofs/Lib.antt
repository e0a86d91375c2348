pub mod Behind
pub mod Items
pub mod Outcomes
pub mod Growing
pub mod Wholes
