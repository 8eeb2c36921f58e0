pub mod Paths
pub mod Along
