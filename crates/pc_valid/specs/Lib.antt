pub mod Words
pub mod Valid
pub mod NoRule
