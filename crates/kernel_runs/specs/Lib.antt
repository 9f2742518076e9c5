pub mod Given
pub mod Planned
pub mod Refused
pub mod Runs
pub mod Steps
