pub mod Bools
pub mod LeftParts
pub mod Sets
pub mod TextOrder
pub mod Complete
