pub mod Drained
pub mod Tests
pub mod Levels
pub mod Stored
pub mod Filling
