pub mod Auditing
pub mod Doing
pub mod Ending
pub mod Running
pub mod Summing
