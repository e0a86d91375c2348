pub mod Uses
pub mod Missing
pub mod Declared
pub mod Turns
pub mod Laws
