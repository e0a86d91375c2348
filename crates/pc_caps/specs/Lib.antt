pub mod Tables
pub mod Closure
pub mod Computed
pub mod Words
