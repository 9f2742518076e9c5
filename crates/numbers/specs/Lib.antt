pub mod Arithmetic
pub mod Names
pub mod OnWords
pub mod Ring
pub mod RingLaws
pub mod Signed
pub mod Sums
