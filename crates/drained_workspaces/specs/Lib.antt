pub mod Drained
pub mod Draining
pub mod Filled
