pub mod PageText
pub mod Claims
