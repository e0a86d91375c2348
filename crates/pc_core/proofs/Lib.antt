pub mod Homes
mod Keys
mod EntitySets
