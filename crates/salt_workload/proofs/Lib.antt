pub mod Blocks
pub mod Counting
pub mod Elements
mod Spelled
