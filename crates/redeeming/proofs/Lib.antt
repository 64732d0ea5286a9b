pub mod Checks
pub mod Spends
