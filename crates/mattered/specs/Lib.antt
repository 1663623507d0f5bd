pub mod Mattered
pub mod Listed
