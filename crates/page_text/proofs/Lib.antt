pub mod Laws
pub mod Lengths
pub mod Medium
pub mod Claims
