-- Sets of blocks, the subset construction, and what is told of orphans.
pub mod Sets
pub mod Subsets
pub mod Orphans
