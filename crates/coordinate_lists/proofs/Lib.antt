pub mod CodesLemmas
pub mod Letters
pub mod SameLists
pub mod Skips
pub mod Spans
pub mod Words
