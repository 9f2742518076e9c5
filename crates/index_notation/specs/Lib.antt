pub mod Numbering
pub mod NumberingLaws
pub mod Operators
pub mod Statement
pub mod Tokens
