pub mod EraseLemmas
pub mod FitsLemmas
