pub mod Alike
pub mod Loops
pub mod Merged
pub mod Opened
pub mod Parts
pub mod Places
pub mod PresentValues
pub mod Turns
