pub mod Hours
pub mod Singles
pub mod Excused
pub mod Private
