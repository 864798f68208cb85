pub mod Bounds
pub mod Rows
pub mod OneKey
pub mod Accepting
pub mod Decided
pub mod Determined
pub mod Sounds
pub mod Earlier
