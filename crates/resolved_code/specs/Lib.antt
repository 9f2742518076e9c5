pub mod Erase
pub mod Fits
pub mod Rooms
