pub mod Access
pub mod Shown
pub mod Effects
pub mod Posting
pub mod Recording
pub mod Turning
pub mod One
pub mod Naming
