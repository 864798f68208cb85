pub mod Columns
pub mod Tables
pub mod Answers
pub mod Decided
pub mod Determined
pub mod SharesAccept
pub mod Earlier
