pub mod Pushes
mod Standing
