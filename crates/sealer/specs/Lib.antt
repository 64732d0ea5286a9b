pub mod Limits
pub mod Meaning
pub mod Outcomes
