pub mod Kits
pub mod Tickets
pub mod Files
pub mod Calls
pub mod Books
pub mod Pasts
