pub mod Entry
pub mod Shown
pub mod Reach
pub mod Cases
pub mod Laid
