pub mod Rows
pub mod Accepting
pub mod Decided
pub mod Comparing
