pub mod PointsText
pub mod Private
