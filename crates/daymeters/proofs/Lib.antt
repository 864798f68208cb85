pub mod Bounds
pub mod Writing
pub mod Decided
pub mod Determined
pub mod NoField
