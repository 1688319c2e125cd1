pub mod Calls
pub mod Local
