pub mod Layout
pub mod Writes
pub mod Sized
pub mod Ends
