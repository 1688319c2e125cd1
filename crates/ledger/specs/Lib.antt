pub mod Run
pub mod Ledger
pub mod Law
