pub mod Line
pub mod Units
pub mod Days
pub mod Answers
pub mod Table
