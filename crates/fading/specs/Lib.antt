pub mod Fading
pub mod Made
pub mod Today
pub mod Examples
