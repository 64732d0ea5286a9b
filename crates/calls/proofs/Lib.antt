pub mod Counting
pub mod Held
pub mod Kits
pub mod Readings
pub mod Same
