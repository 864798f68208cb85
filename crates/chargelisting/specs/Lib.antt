pub mod ChargesText
pub mod MeterDay
pub mod Former
