-- Answers to rules: the definitions that the contracts cite.
pub mod Answers
pub mod Endless
pub mod FiniteAnswers
