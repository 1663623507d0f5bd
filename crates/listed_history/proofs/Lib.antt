pub mod ListsHistory
pub mod Examples
