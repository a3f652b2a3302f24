pub mod Filling
pub mod Holding
pub mod Leaving
pub mod Opened
pub mod Refusing
pub mod Remembering
pub mod Standing
pub mod Writing
