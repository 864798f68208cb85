pub mod Segments
pub mod Sides
pub mod SideRuns
pub mod SideParts
pub mod Parts
pub mod FileEntries
pub mod Splitting
pub mod EntryRows
