pub mod Determined
pub mod RowReading
pub mod Taking
