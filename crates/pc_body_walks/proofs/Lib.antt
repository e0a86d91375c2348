pub mod Firsts
pub mod Gathered
pub mod Heads
