pub mod Draws
pub mod Generated
pub mod Matrices
pub mod Refused
pub mod Workloads
