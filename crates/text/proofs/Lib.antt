pub mod Decimals
pub mod Laying
pub mod Determined
pub mod Figures
