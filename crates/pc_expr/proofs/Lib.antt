pub mod Ends
pub mod Lasts
pub mod Loops
pub mod Parts
pub mod Public
pub mod Exact
