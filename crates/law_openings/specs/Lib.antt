pub mod Openings
pub mod Draining
pub mod DrainRows
