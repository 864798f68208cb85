pub mod Largests
pub mod Levels
pub mod Parts
pub mod Chains
