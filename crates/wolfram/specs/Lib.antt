-- The numbers of rules: the definitions that the contracts cite.
pub mod Numbers
