pub mod Newer
pub mod Meeting
