pub mod Walk
pub mod Tree
pub mod Images
pub mod Path
pub mod Follow
