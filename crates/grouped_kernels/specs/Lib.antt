pub mod Workspaces
pub mod Kernels
