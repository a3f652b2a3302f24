pub mod Waiters
pub mod Shown
pub mod Calls
pub mod Parts
pub mod Holders
pub mod Watched
