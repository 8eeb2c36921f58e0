-- What can be wrong with a command: the definitions that the contracts cite.
pub mod Failure
