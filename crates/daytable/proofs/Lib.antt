pub mod Accepting
pub mod Decided
