pub mod Operands
pub mod Resolving
pub mod Names
