-- The argument, in its order.
pub mod Room
pub mod Ranks
pub mod Spelling
pub mod Pushes
pub mod Steps
pub mod Ends
pub mod Reading
