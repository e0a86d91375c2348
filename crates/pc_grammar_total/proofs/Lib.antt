pub mod Left
pub mod LeftRules
pub mod LeftFile
pub mod Openers
pub mod Answered
