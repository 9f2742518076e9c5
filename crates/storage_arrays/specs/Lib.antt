pub mod Arrays
pub mod Done
