pub mod Inside
pub mod Applied
pub mod Fielded
