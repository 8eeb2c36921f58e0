pub mod Bounds
pub mod Splitting
pub mod Edges
pub mod Reading
pub mod Shortest
pub mod Telling
