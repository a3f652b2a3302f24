pub mod Follows
pub mod Recovering
pub mod Done
