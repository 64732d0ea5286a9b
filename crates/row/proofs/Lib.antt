pub mod Rows
pub mod Meanings
