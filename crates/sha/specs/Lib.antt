pub mod Roots
pub mod Digest
pub mod Hasher
pub mod Laws
