pub mod JoinLaws
pub mod Kernels
pub mod Rows
