pub mod Fault
pub mod Test
pub mod Private
pub mod Whole
