pub mod Calling
pub mod Calm
pub mod Follows
pub mod Refusals
pub mod Refused
pub mod Serving
pub mod Standing
pub mod Done
