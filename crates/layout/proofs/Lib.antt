pub mod Laid
pub mod Trips
