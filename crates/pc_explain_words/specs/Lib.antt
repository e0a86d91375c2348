pub mod Caps
pub mod Forms
pub mod Lacks
pub mod Methods
pub mod Misfits
pub mod Scene
