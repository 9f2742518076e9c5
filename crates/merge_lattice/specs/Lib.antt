pub mod Iterators
pub mod Lattices
pub mod Parts
pub mod Points
