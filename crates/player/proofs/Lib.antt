pub mod Long
pub mod Laws
pub mod Cuts
pub mod Calls
