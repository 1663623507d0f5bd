pub mod Archive
pub mod Faded
pub mod Periods
pub mod Examples
