pub mod Counting
pub mod Picking
pub mod Places
pub mod Only
pub mod Lives
pub mod Runs
pub mod Bound
pub mod Possible
