pub mod Conditions
pub mod Chosen
pub mod Failing
pub mod Laws
