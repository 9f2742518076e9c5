pub mod Decoded
pub mod KernelFiles
pub mod Laws
pub mod Reads
