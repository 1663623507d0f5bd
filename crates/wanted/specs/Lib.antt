pub mod Wanted
pub mod Serves
pub mod InTurn
