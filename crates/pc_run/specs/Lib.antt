pub mod Spreading
pub mod Reports
pub mod Writing
pub mod Ends
pub mod Counting
pub mod Underway
