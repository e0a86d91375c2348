pub mod Formation
pub mod Validity
