pub mod Case
pub mod Line
pub mod Run
pub mod Private
