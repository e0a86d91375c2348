pub mod Appends
mod Columns
