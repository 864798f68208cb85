pub mod Column
pub mod Sum
pub mod First
