pub mod Gives
pub mod Onto
pub mod Answers
