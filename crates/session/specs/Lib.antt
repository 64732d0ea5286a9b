pub mod Limits
pub mod Suites
pub mod Records
pub mod Laws
