pub mod File
pub mod Answer
pub mod Excused
pub mod Private
