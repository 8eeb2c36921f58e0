-- Why pictures of reasons are drawn, but for failures.
pub mod Refusals
pub mod Rings
