pub mod Ended
pub mod Issued
