pub mod WordFacts
pub mod WordLetters
pub mod SignFacts
pub mod SignLetters
