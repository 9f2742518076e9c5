pub mod Grouped
pub mod GroupedLaws
pub mod Chains
pub mod Emitted
pub mod Made
