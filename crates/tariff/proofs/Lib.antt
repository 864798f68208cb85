pub mod HalfUps
pub mod Most
pub mod Products
pub mod Charged
pub mod Escalated
pub mod Decided
