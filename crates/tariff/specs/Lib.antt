pub mod HalfUp
pub mod Rates
pub mod Charges
pub mod Escalation
