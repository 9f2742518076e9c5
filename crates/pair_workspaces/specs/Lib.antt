pub mod Codes
pub mod Drained
pub mod DrainedLaws
pub mod SinkLaws
pub mod Sinks
