pub mod CallLaws
pub mod Code
pub mod Compressed
pub mod Handed
pub mod Laws
pub mod PartLaws
pub mod SumLaws
