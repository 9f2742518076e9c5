pub mod EmptyLaws
pub mod RowLaws
pub mod SortLaws
pub mod TakeLaws
