pub mod Words
pub mod Kinds
pub mod Names
pub mod Search
pub mod Text
