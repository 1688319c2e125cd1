pub mod Rows
pub mod Searching
pub mod Large
pub mod Repeating
