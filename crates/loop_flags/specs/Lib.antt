pub mod Flags
pub mod Liveness
pub mod Pruned
pub mod PrunedSteps
pub mod Told
