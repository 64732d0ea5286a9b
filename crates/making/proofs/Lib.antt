pub mod Blanks
pub mod Laid
pub mod Made
