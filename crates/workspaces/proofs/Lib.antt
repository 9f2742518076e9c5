pub mod Absent
pub mod NestedZeros
pub mod Present
pub mod SumsOfPairs
