pub mod Each
pub mod Fronts
