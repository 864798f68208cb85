pub mod Taking
pub mod Handing
pub mod Listing
pub mod Sizes
pub mod Decided
