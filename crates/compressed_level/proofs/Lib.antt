pub mod CallLaws
pub mod CodeLaws
pub mod Handed
pub mod Laws
pub mod PartLaws
pub mod SumLaws
