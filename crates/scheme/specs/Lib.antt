pub mod Schemes
pub mod Covering
pub mod Laws
