pub mod Draws
pub mod Nexts
