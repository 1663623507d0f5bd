pub mod Dispatch
pub mod Parts
pub mod Named
