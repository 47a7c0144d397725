pub mod Lead
pub mod Keys
