pub mod ListLemmas
pub mod PlaceLemmas
pub mod RowLemmas
pub mod SumLemmas
