pub mod Marked
pub mod Swept
pub mod Reopened
