pub mod Head
pub mod Places
pub mod Quoting
pub mod Shown
pub mod Window
