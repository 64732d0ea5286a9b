pub mod Nodes
pub mod Gaps
pub mod Cover
pub mod Puncture
pub mod Values
pub mod Examples
