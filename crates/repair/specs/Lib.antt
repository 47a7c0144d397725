pub mod Repair
