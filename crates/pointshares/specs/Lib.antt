pub mod Share
pub mod Answer
pub mod Promise
pub mod Private
