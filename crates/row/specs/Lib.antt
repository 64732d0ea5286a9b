pub mod Rows
pub mod Appointed
