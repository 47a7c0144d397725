pub mod Mode
pub mod Fits
pub mod Plain
pub mod Choice
pub mod Step
