pub mod CodeLemmas
pub mod FactLemmas
pub mod Keeping
pub mod LoopLemmas
pub mod NameLemmas
