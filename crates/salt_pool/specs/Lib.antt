pub mod Dirtied
pub mod Errors
pub mod Flushing
pub mod Frames
pub mod Pools
