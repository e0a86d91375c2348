pub mod Schedules
pub mod Answers
pub mod Laws
pub mod Reading
