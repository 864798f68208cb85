pub mod Spelling
pub mod Decided
