pub mod Effects
pub mod Refusals
