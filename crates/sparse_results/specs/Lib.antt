pub mod Growths
pub mod Keys
pub mod Loops
pub mod Results
pub mod Sorting
pub mod Stored
pub mod Tables
