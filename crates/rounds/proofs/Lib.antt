pub mod Turns
pub mod Unchanging
pub mod Searches
pub mod Accepting
pub mod Determined
pub mod Decided
