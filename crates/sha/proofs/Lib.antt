pub mod Rule
pub mod Chunks
pub mod Absorbed
pub mod Digests
pub mod Feeding
