pub mod Meanings
pub mod Indexes
pub mod Pairs
pub mod Near
