pub mod Faults
pub mod Mains
pub mod Laws
pub mod Parts
