pub mod Listing
pub mod Written
pub mod Claims
