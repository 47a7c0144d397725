pub mod Appended
pub mod Restored
pub mod Made
