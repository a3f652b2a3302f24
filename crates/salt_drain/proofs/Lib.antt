pub mod Asked
pub mod Chosen
pub mod Done
pub mod Follows
pub mod Sound
