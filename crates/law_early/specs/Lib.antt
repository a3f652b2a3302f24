pub mod Least
pub mod EarlyRows
