pub mod Ends
pub mod Filled
pub mod FromSums
pub mod Kernels
pub mod Points
pub mod Starts
pub mod Turns
