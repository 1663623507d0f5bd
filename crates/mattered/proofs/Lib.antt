pub mod Laws
pub mod Sorted
pub mod Meant
pub mod Bounds
pub mod Log
pub mod Along
pub mod Lists
