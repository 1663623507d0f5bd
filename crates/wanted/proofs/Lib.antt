pub mod Laws
pub mod Order
pub mod Append
pub mod Serves
pub mod InTurn
