pub mod Gathered
pub mod InOrder
pub mod Keeping
pub mod ListCursors
pub mod Rows
pub mod SeenCursors
pub mod Staying
