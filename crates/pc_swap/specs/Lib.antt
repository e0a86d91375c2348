pub mod Apart
pub mod Swapping
pub mod Laws
pub mod Ends
pub mod Confluence
