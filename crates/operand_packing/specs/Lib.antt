pub mod Drawn
pub mod Operands
pub mod Orders
pub mod Packed
pub mod Runnable
