pub mod Sums
pub mod WordLaws
