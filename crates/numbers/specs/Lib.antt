pub mod Scan
pub mod Numbers
