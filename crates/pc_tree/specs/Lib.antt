pub mod Tree
pub mod Kinds
pub mod View
pub mod Depths
pub mod Levels
pub mod Parts
pub mod Members
