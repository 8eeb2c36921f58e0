pub mod Ranges
pub mod Widths
pub mod Reading
pub mod Prefixing
pub mod Filling
