pub mod Contributions
pub mod Nesting
pub mod Nests
pub mod Right
pub mod Workspaces
