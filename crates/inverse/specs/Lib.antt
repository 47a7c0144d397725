pub mod Invert
