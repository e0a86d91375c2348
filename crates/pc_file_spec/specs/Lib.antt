pub mod Cores
pub mod Order
pub mod Example
pub mod Laws
