pub mod Paths
pub mod Answers
pub mod Following
pub mod Blocks
pub mod Checks
pub mod Acceptance
pub mod Converse
pub mod Cases
