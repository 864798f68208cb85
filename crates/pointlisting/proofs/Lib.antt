pub mod Decided
pub mod FirmMdqs
pub mod PartRead
pub mod Points
pub mod FileLists
pub mod Sizes
pub mod Earlier
