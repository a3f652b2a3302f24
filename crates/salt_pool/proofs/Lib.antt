mod Clean
mod Dirtied
mod Distinct
mod Frames
mod Left
pub mod Near
mod Numbers
mod Pigeons
mod Pools
mod Put
pub mod Seen
mod Writing
