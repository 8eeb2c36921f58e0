-- Rows that are run: the definitions that the contracts cite.
pub mod Refused
pub mod Starts
pub mod Lines
pub mod Grown
pub mod Runs
pub mod Tables
pub mod Asked
