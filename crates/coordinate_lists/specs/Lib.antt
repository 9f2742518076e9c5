pub mod Codes
pub mod Letters
pub mod Skips
pub mod Spans
pub mod Widths
