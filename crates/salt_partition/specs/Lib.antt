pub mod Contents
pub mod Shown
pub mod Choices
pub mod Partitions
pub mod Openings
pub mod Reopening
