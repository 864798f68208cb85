pub mod Excesses
pub mod Greatest
pub mod Periods
pub mod Worked
