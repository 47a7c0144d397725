pub mod Same
pub mod Alike
pub mod Laws
pub mod Editions
