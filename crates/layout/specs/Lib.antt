pub mod Records
pub mod Trips
