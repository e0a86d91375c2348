pub mod Runs
pub mod Values
pub mod TurnReading
pub mod OneCut
pub mod Reached
pub mod Together
