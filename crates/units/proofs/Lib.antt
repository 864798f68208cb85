pub mod Aboves
pub mod Checks
pub mod Testing
pub mod Determined
pub mod Verdicts
pub mod Places
