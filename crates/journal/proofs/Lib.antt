pub mod Marks
pub mod Views
pub mod Runs
pub mod Clearings
pub mod Placings
pub mod Readings
pub mod Wholes
pub mod Ends
