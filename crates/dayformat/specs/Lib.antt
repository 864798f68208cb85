pub mod Format
pub mod Layout
pub mod Acceptance
pub mod DayBytes
pub mod Private
