pub mod OneStep
pub mod Writes
