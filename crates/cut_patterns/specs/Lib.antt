pub mod Cuts
pub mod Struck
pub mod CutBits
