pub mod Table
pub mod Acceptance
