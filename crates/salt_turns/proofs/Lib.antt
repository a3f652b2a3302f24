pub mod Amid
pub mod Begun
pub mod Turned
