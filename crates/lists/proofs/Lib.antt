pub mod Each
pub mod Products
pub mod Tests
