pub mod Laws
pub mod LittleEndian
pub mod Slices
pub mod Clash
