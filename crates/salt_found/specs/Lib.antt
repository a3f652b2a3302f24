pub mod Errors
pub mod Definitions
pub mod Conts
pub mod Moves
pub mod Recovered
