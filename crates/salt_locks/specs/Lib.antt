pub mod Alike
pub mod Clear
pub mod Leaving
pub mod Places
pub mod Spots
pub mod Tables
pub mod Turns
