pub mod Printing
pub mod Parts
pub mod Bare
pub mod Laws
pub mod Examples
