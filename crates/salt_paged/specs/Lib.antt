pub mod Partitions
pub mod Openings
pub mod Checkpoints
pub mod Reopening
