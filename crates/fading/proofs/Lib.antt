pub mod Standing
pub mod Same
pub mod Serials
pub mod Moments
pub mod Fading
pub mod Made
pub mod Today
pub mod Examples
