pub mod RowLaying
pub mod FieldLaying
pub mod Accepting
pub mod Decided
pub mod Determined
