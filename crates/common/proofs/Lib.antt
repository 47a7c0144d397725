pub mod Headers
pub mod Holding
pub mod Indexes
pub mod Texts
pub mod TypeNumbers
