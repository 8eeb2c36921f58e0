-- Questions about rules in words: the definitions that the contracts cite.
pub mod Answered
