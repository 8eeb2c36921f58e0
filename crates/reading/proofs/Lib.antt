pub mod One
pub mod Refused
pub mod Shapes
pub mod Spaced
