pub mod Decided
pub mod HeadLine
pub mod Sizes
pub mod TextIs
pub mod Earlier
