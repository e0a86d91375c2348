pub mod Orders
mod Places
pub mod Telling
mod Whole
pub mod Confluence
