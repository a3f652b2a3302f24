mod Spelled
mod Refusals
pub mod Defining
mod Following
mod Recovering
