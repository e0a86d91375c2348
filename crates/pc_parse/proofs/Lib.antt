pub mod Ends
pub mod Parts
pub mod Loops
pub mod Public
