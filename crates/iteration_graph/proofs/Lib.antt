pub mod CycleLaws
pub mod EdgeSteps
pub mod FirstLeft
pub mod Firsts
pub mod OneCycle
pub mod OrderLaws
pub mod StepLaws
pub mod Walks
