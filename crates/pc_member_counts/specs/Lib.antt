pub mod Numbers
pub mod Orders
pub mod Blocks
pub mod Windows
pub mod Fresh
pub mod Plans
pub mod Totals
