pub mod Trace
pub mod Read
pub mod Calls
pub mod Kinds
