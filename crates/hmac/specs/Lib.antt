pub mod Mac
pub mod Keyed
pub mod Laws
