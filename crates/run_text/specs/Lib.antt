pub mod RunText
pub mod Running
