pub mod Explain
pub mod Inner
