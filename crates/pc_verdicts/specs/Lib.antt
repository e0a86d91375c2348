pub mod There
pub mod Free
