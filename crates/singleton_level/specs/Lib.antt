pub mod Handed
pub mod Laws
pub mod Singleton
