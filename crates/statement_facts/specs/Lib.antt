pub mod Alone
pub mod Facts
