pub mod Checking
pub mod Charging
pub mod GasLending
pub mod ChargeTests
pub mod Unpacking
pub mod CallerReads
pub mod Determined
