pub mod Rows
pub mod Ends
pub mod Lengths
