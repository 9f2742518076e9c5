pub mod Folded
pub mod Refines
pub mod Same
