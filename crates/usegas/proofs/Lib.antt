pub mod Shares
pub mod Scheduling
pub mod Accepting
pub mod Determined
pub mod Decided
pub mod Spending
pub mod Heaters
