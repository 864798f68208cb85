pub mod Accepting
pub mod Bodies
pub mod Decided
pub mod Every
pub mod Filled
pub mod Layouts
pub mod Small
pub mod Sizes
