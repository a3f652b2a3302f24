pub mod Fronts
pub mod Reading
pub mod Stopping
pub mod Wording
