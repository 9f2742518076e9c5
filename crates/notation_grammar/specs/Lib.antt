pub mod Faults
pub mod Grammar
pub mod Notation
pub mod Symbols
pub mod TreeStatement
