pub mod BitSets
pub mod Follow
pub mod Followers
pub mod Reached
pub mod Searching
pub mod Cases
