pub mod Lists
pub mod Needs
pub mod Cells
