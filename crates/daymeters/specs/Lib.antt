pub mod Meter
pub mod Figures
pub mod Hours
pub mod Excused
pub mod Private
