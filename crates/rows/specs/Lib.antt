-- Rows that own their cells: the definitions that the contracts cite.
pub mod Random
pub mod Next
