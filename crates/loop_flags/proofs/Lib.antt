pub mod EnvLaws
pub mod FlagLaws
pub mod FlagParts
pub mod LiveLaws
pub mod LoopHeights
pub mod LoopParts
pub mod PlacesSet
pub mod PruneLaws
