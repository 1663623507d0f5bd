pub mod Filled
pub mod Text
pub mod Decimal
pub mod Window
pub mod Parts
