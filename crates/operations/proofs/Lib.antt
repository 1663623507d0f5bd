pub mod Laws
pub mod Facts
pub mod Refusals
