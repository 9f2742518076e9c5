pub mod CodeLaws
pub mod Handed
pub mod Laws
