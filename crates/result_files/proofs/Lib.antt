pub mod SmallCoordinates
pub mod FileTexts
pub mod FilledFiles
pub mod ResultTexts
pub mod Batches
pub mod Tallies
pub mod OneText
