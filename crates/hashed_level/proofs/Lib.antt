pub mod CodeLaws
pub mod Laws
pub mod SearchCode
pub mod SearchLaws
pub mod SlotLaws
