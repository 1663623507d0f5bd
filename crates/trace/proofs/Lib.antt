pub mod Laws
pub mod Form
pub mod Calls
