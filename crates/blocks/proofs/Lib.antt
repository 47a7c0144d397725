pub mod Opening
pub mod Looking
pub mod Joined
pub mod Places
