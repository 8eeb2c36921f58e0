pub mod Unrolled
pub mod Seconds
pub mod Rolling
pub mod Shifting
pub mod Turns
pub mod Rings
pub mod Later
