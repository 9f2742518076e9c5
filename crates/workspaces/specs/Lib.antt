pub mod Nested
pub mod Presence
pub mod PresenceLaws
pub mod Workspaces
