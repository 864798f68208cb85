pub mod Levels
pub mod Figures
