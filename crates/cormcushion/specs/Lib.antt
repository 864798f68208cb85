pub mod Packed
pub mod Answers
pub mod Lent
pub mod Meter
pub mod DayGas
