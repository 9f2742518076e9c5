pub mod Heads
pub mod Orders
pub mod Tails
pub mod Takings
pub mod Worked
