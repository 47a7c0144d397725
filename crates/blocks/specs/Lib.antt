pub mod Block
pub mod Make
pub mod Place
pub mod View
