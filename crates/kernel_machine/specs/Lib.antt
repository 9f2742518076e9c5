pub mod Begins
pub mod Checked
pub mod Kept
pub mod Laws
pub mod Runs
