pub mod Appended
pub mod Codes
pub mod Positions
pub mod Refined
