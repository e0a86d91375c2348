mod Anyone
pub mod Steps
mod Written
