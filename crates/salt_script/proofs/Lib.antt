pub mod Keeping
pub mod Reading
pub mod Calls
pub mod Acts
pub mod Lines
pub mod LineBytes
pub mod Asking
pub mod Unique
