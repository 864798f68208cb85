pub mod Row
pub mod Column
pub mod Shippers
pub mod Points
pub mod Private
