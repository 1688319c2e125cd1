pub mod Counting
pub mod Choosing
pub mod Linking
pub mod Passing
