pub mod Staying
pub mod Halted
