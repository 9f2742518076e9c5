pub mod Answers
pub mod CycleLaws
pub mod Edges
pub mod Firsts
pub mod Graphs
pub mod OrderLaws
pub mod StepLaws
