pub mod Numerals
pub mod Givens
pub mod Orders
pub mod Forms
pub mod Spelled
