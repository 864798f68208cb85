pub mod Rows
pub mod Private
