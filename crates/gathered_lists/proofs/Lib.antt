pub mod GatherLaws
pub mod InOrder
pub mod ListLaws
pub mod Passing
pub mod Rows
pub mod Staying
