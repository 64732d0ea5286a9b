pub mod Limits
pub mod Parts
