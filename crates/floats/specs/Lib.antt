pub mod Twos
pub mod Kept
