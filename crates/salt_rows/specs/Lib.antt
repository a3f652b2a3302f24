pub mod Changing
pub mod Errors
pub mod Frames
pub mod Reads
pub mod Sides
pub mod Stores
