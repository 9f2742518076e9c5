pub mod Parts
pub mod Rows
pub mod Sharing
pub mod Steps
