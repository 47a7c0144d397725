pub mod Values
pub mod Numbers
pub mod Stored
pub mod Linear
pub mod Table
pub mod Search
