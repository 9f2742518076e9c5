pub mod Begun
pub mod Lending
