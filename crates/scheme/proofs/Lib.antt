pub mod Covers
pub mod Opens
