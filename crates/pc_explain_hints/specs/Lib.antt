pub mod Choice
pub mod Hints
pub mod Laws
pub mod Nodes
