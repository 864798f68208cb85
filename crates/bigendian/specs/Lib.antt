pub mod Number
pub mod Row
