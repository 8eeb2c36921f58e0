-- That the runs are those of the row.
pub mod Painting
