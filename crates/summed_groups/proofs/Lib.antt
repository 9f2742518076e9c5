pub mod Parts
pub mod Prefixed
