pub mod Nan
pub mod Kept
pub mod Whole
pub mod Signed
