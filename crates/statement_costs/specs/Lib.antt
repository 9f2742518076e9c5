pub mod Costs
pub mod Plain
pub mod Probes
pub mod Slots
pub mod Worked
