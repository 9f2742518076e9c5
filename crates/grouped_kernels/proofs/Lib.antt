pub mod Chains
pub mod Counts
pub mod Sums
pub mod Takes
pub mod Workspaces
pub mod Modes
pub mod Groups
