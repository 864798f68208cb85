pub mod Largest
pub mod Round
pub mod Chain
pub mod Part
pub mod Private
