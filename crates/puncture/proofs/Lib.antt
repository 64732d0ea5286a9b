pub mod Values
pub mod Open
pub mod Laid
pub mod Done
