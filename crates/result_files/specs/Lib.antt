pub mod Refused
pub mod EntriesText
pub mod Fills
pub mod ResultText
pub mod Writes
pub mod Tally
