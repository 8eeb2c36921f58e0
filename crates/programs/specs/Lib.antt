-- The programs around the commands: the definitions that the contracts cite.
pub mod Lines
pub mod Beside
pub mod Source
