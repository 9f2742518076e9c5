pub mod Following
pub mod Gathering
pub mod Leaving
pub mod LiveLemmas
pub mod Whole
