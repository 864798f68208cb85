pub mod SharesText
pub mod Private
