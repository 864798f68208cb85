pub mod Firm
pub mod Class
pub mod Given
pub mod Answer
pub mod Promise
pub mod Private
