pub mod Standing
pub mod Performing
pub mod Finding
pub mod Halves
pub mod Openings
