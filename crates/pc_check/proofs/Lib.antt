pub mod Parents
pub mod Filling
pub mod Definitions
pub mod Walking
pub mod Stopping
pub mod Agreement
pub mod OneFault
