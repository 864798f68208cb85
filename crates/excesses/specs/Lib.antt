pub mod Hourly
pub mod TwelveHourly
pub mod Greatest
