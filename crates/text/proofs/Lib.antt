pub mod Read
pub mod Show
