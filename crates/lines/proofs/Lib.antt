pub mod Lining
pub mod Answers
pub mod Determined
pub mod Decided
pub mod Figures
pub mod Sizes
pub mod Texts
