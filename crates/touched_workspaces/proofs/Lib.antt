pub mod Coordinates
pub mod DrainLaws
pub mod DrainedCodes
pub mod ReadLaws
pub mod RowLaws
pub mod SortLaws
pub mod StartLaws
