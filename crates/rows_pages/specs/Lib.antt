pub mod Headers
pub mod Spelled
pub mod Stores
