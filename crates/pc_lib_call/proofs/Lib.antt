pub mod Asked
pub mod Commands
pub mod Exactly
pub mod Readings
