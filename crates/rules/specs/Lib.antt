-- What a rule, a piece and a next row are, and what the contracts say of them.
pub mod Checks
pub mod Local
pub mod Rows
pub mod Rules
