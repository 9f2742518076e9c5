pub mod Bits
pub mod MinPlus
