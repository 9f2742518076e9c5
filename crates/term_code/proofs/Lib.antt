pub mod DenseLaws
pub mod OptionLaws
pub mod Parts
pub mod PlaceLaws
pub mod PresenceLaws
pub mod SumLaws
pub mod TermLaws
pub mod WorkspaceLaws
