pub mod Digits
pub mod Tables
pub mod Next
pub mod Writing
pub mod Strays
