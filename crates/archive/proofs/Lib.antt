pub mod Kept
pub mod Moments
pub mod Once
pub mod Faded
pub mod Periods
pub mod Examples
pub mod TooEarly
