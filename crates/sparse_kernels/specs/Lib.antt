pub mod Kernels
pub mod Turns
