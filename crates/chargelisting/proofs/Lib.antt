pub mod Decided
pub mod HeadLine
pub mod Rated
pub mod Sizes
pub mod OverrunsAccept
pub mod NothingExcused
pub mod ExcusedAccept
pub mod ChargesAccept
