pub mod Number
pub mod Hour
pub mod Day
pub mod Promise
pub mod Private
