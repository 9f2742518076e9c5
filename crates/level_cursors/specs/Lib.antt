pub mod Children
pub mod Cursors
pub mod Laws
pub mod Located
pub mod Ranges
