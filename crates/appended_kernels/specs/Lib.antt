pub mod Ended
pub mod Kernels
