pub mod Apart
pub mod Few
pub mod Fronts
pub mod LastCursor
pub mod LeastLaws
pub mod LoopLaws
pub mod Parts
pub mod RangedLaws
