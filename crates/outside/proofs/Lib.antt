pub mod Feeding
pub mod Files
pub mod FilesByName
pub mod Givens
pub mod Sinks
