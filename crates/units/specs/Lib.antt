pub mod Unit
pub mod Bound
pub mod Above
pub mod Refusals
pub mod Each
pub mod Verdict
