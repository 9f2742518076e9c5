pub mod Follows
pub mod Gathers
pub mod Live
