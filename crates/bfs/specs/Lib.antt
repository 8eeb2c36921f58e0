-- Words that an automaton reads, and breadth-first search for the first of them: the definitions that the contracts cite.
pub mod Words
pub mod Answer
pub mod Parents
pub mod Search
