pub mod Spells
pub mod Reading
pub mod FileAnswers
pub mod Laws
pub mod ReadingFile
pub mod Parsing
pub mod Parts
