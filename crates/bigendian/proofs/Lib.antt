pub mod Numbers
pub mod Rows
pub mod Reading
pub mod Laying
pub mod Determined
pub mod Figures
