pub mod Acting
pub mod Edited
pub mod Putting
pub mod Merging
