-- Two rows that differ at finitely many places and have one next row: the definitions that the contracts cite.
pub mod Diamonds
pub mod Told
