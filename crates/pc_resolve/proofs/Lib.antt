pub mod Found
pub mod Indexes
pub mod NearNames
pub mod Texts
pub mod Visibles
