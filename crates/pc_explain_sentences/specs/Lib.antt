pub mod Fills
pub mod Goals
pub mod Sentences
pub mod Slots
pub mod Stop
pub mod Untyped
