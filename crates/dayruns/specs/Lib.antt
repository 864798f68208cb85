pub mod Run
pub mod Walk
pub mod Private
