pub mod Words
pub mod Files
pub mod Names
pub mod Bindings
pub mod Outcome
pub mod Views
pub mod Tables
