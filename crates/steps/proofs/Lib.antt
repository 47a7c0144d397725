pub mod Choices
pub mod Low
pub mod Opened
pub mod Within
