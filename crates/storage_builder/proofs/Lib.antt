pub mod Alike
pub mod Clearing
pub mod Descending
pub mod Finishing
pub mod Having
pub mod Making
pub mod Room
pub mod Wholes
