pub mod Sources
pub mod SourceMasks
pub mod Inference
pub mod Faults
pub mod Walked
pub mod Laws
