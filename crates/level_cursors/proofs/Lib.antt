pub mod Children
pub mod CursorLaws
pub mod Fronts
pub mod LocateLaws
pub mod RangeLaws
