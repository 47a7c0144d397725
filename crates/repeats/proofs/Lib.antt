pub mod Common
pub mod Rests
pub mod Runs
pub mod Numbers
pub mod Chunks
pub mod Firsts
pub mod Hashes
