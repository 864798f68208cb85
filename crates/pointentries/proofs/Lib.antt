pub mod Decided
pub mod EntryKeys
pub mod EntryLists
pub mod EntryParts
