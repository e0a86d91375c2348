pub mod Plays
pub mod Tables
pub mod Texts
pub mod Under
pub mod Shown
