-- Rows that have one next row: the definitions that the contracts cite.
pub mod OneNext
