pub mod UnderPlay
mod Fitting
