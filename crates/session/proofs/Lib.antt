pub mod Rows
pub mod Laid
pub mod Trip
pub mod Fitting
pub mod Written
