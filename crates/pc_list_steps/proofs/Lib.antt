mod Stepping
mod Underway
