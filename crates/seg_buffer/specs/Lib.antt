pub mod Buffer
pub mod Memory
pub mod PlacesLend
pub mod SegmentLend
pub mod WordBuffer
