-- Cells as text: the definitions that the contracts cite.
pub mod Letters
pub mod Parsed
pub mod Shown
