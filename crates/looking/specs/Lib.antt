pub mod Looks
pub mod Chains
pub mod Left
