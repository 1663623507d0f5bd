pub mod Laws
pub mod Facts
pub mod First
pub mod Kinded
