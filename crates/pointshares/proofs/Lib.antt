pub mod Adding
pub mod Shares
pub mod Cases
pub mod Stranding
pub mod Accepting
pub mod Determined
pub mod Decided
pub mod Spending
