pub mod Held
pub mod Sizes
pub mod Stores
