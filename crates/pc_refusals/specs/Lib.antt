pub mod Derivation
pub mod Inner
pub mod Source
pub mod Verdict
pub mod FaultLines
pub mod Parts
pub mod Ends
pub mod Knowing
