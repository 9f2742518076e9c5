pub mod Code
pub mod Dense
pub mod Laws
