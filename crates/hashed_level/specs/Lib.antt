pub mod Code
pub mod Hashed
pub mod Laws
pub mod SearchLaws
pub mod SlotLaws
pub mod Slots
