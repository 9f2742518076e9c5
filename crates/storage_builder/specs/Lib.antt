pub mod Building
pub mod Checked
pub mod Cleared
pub mod Made
