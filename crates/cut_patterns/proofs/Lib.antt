pub mod Cuts
pub mod CutsAllowed
