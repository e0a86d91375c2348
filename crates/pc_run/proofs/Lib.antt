mod Written
pub mod Stepping
pub mod Whole
