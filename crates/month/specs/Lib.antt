pub mod Figures
pub mod Days
pub mod Account
pub mod Total
pub mod Statement
pub mod Promise
pub mod Private
