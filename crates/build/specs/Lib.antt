pub mod Checked
pub mod Filled
pub mod Built
pub mod Laws
pub mod Steps
