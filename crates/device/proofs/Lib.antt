pub mod States
pub mod Writes
