pub mod Isolated
pub mod Passed
pub mod ValidLaws
pub mod Laws
pub mod ForGood
pub mod Examples
