pub mod Alone
pub mod Begun
pub mod NoRows
pub mod Steps
