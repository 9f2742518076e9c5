pub mod CodeLaws
pub mod Laws
