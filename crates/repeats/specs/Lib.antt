pub mod Repeats
pub mod Scan
pub mod Chunk
