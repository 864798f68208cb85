pub mod Share
pub mod General
pub mod Heater
pub mod Promise
pub mod Fuel
pub mod Private
