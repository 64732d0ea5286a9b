pub mod Bytes
pub mod Meaning
pub mod Descent
