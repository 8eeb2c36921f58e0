-- Rules in words: the definitions that the contracts cite.
pub mod Split
pub mod Words
pub mod Wrong
