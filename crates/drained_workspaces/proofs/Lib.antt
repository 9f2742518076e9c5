pub mod DrainLaws
pub mod FillLaws
pub mod PrefixedSums
pub mod Prefixes
pub mod Sums
