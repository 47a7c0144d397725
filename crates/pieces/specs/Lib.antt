pub mod Write
pub mod Label
pub mod Answer
pub mod Did
