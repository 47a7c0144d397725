pub mod Levels
pub mod Groups
