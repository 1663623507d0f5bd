pub mod Leads
pub mod Counting
pub mod Fewest
pub mod Eleven
pub mod Accepted
pub mod Turns
pub mod Comparison
pub mod Together
