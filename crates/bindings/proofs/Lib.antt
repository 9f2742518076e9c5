pub mod Words
pub mod Tables
pub mod Rows
pub mod FirstNamed
pub mod Formats
pub mod OneAnswer
