pub mod Appending
pub mod Compiled
pub mod Filling
pub mod Grouping
pub mod Loops
pub mod Marking
pub mod Shorter
pub mod Tails
