pub mod Checked
pub mod Applied
pub mod Block
pub mod Place
pub mod Text
pub mod Inverted
