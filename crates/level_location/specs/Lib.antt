pub mod Found
pub mod Listed
pub mod Made
pub mod SeekCursors
pub mod Segments
pub mod Walked
