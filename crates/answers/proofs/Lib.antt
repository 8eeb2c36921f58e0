pub mod Sounds
pub mod Stand
pub mod Told
