pub mod DayTable
pub mod Answer
pub mod Private
