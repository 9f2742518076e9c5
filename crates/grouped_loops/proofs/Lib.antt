pub mod Fronts
pub mod Orders
pub mod Groups
pub mod Loops
pub mod Chains
pub mod Whole
pub mod Sums
