pub mod Leads
pub mod Same
