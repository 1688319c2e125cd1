pub mod Width
pub mod Groups
pub mod Calls
