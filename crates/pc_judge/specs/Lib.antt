pub mod Laws
pub mod Faults
pub mod Computed
pub mod Example
pub mod AtNodes
