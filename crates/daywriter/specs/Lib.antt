pub mod Acceptance
pub mod Answer
