pub mod CodeLemmas
pub mod Equations
pub mod ExprLemmas
pub mod Refining
pub mod Unnumbered
pub mod WordsAlone
