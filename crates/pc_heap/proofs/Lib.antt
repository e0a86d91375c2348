pub mod Counts
pub mod Finds
pub mod Fronts
pub mod Maps
pub mod Slices
pub mod Sounds
