pub mod Recorded
pub mod Text
pub mod OfCode
pub mod Reaches
pub mod Events
pub mod Example
