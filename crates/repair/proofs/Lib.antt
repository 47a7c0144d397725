pub mod Holding
pub mod Reading
pub mod Laws
