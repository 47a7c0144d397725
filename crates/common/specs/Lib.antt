pub mod Types
pub mod Refusal
pub mod Header
pub mod Text
pub mod Written
