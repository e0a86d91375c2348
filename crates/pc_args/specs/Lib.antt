pub mod Asked
pub mod Forms
pub mod Line
pub mod ReadingEnds
pub mod Refused
pub mod Commands
pub mod Numbers
pub mod Rows
