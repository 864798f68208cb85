pub mod HourText
pub mod Parts
pub mod Private
