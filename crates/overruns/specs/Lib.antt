pub mod Answers
pub mod Hourly
pub mod Daily
pub mod TwelveHourly
pub mod Day
pub mod Excused
pub mod Promise
