pub mod Fitting
pub mod Found
pub mod Orders
pub mod Slots
pub mod Widths
