pub mod Forms
pub mod Writes
pub mod Reading
pub mod Steps
