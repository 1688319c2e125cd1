pub mod Choose
pub mod Round
pub mod Places
pub mod Laws
