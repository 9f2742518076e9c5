pub mod CodeEnds
pub mod Kernels
pub mod Laws
pub mod Results
pub mod Stores
