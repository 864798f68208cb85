pub mod PointRows
pub mod SideLists
