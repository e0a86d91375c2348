pub mod Members
pub mod NodeWords
pub mod Parts
