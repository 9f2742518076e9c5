pub mod Lists
pub mod Renaming
pub mod Tables
pub mod Whole
