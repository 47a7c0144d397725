pub mod Write
pub mod Plain
pub mod Stored
