pub mod Keys
pub mod Loaded
pub mod Meets
pub mod Order
pub mod Rows
pub mod Shown
pub mod Spelled
pub mod Spots
