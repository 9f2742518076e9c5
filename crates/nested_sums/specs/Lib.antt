pub mod Bad
pub mod Bound
pub mod Inner
pub mod Multiplied
pub mod Pieces
pub mod Support
pub mod Told
