pub mod Columns
pub mod Counts
pub mod Passes
pub mod Rows
