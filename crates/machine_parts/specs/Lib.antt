pub mod ArrayPlaces
pub mod Rows
