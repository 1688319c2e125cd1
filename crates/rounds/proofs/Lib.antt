pub mod Carrying
pub mod Moving
pub mod Sharing
