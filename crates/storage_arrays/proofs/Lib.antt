pub mod Packed
mod LastParents
