-- The least width and place that tell, and the table of a way back.
pub mod Inverse
pub mod Prefixes
