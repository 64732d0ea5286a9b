pub mod Listed
pub mod Free
