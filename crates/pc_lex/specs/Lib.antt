pub mod Laws
pub mod TextReading
pub mod Pieces
pub mod EscapeFaults
pub mod Reading
pub mod Faults
pub mod Refusals
pub mod Parts
