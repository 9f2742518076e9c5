pub mod PartLaws
pub mod PointLaws
