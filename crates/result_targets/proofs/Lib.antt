pub mod Beside
pub mod Scratch
pub mod Taken
