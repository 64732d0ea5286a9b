pub mod Sessions
pub mod Rows
