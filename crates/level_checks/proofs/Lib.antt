pub mod BlockSteps
pub mod CompressedWords
pub mod EachKind
pub mod HashedWords
pub mod Loops
pub mod Orders
pub mod Segments
pub mod SingletonWords
