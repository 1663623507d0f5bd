pub mod Group
pub mod Limited
pub mod Compare
