pub mod Laying
pub mod Puncturing
