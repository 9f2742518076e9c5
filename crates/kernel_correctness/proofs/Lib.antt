pub mod CodeEnds
pub mod FlatStores
pub mod LoopedStores
pub mod Sound
pub mod Starts
