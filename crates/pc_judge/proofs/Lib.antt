pub mod Kept
pub mod AtNode
pub mod Bodies
pub mod Exact
pub mod Faulty
