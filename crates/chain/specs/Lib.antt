pub mod Listing
pub mod Reading
pub mod Outcome
pub mod Steps
pub mod Sound
