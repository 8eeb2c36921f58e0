-- Rows in a ring: the definitions that the contracts cite.
pub mod Ring
pub mod Seconds
