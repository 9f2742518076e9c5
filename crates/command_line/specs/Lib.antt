pub mod CommandLine
pub mod Clap
pub mod Told
pub mod Law
