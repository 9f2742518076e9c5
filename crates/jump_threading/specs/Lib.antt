pub mod Alike
pub mod Leads
