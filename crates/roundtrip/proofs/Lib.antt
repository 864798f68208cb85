pub mod DayAgain
pub mod Exact
pub mod FrontAgain
pub mod HeadAgain
pub mod OnRoutines
pub mod RoundTrips
pub mod SameFront
pub mod ListedAlike
