pub mod Fielded
pub mod Unseen
pub mod Small
pub mod Compared
pub mod Blank
pub mod Chunks
pub mod Parts
