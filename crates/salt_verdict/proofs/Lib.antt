pub mod Active
mod Changing
mod Commits
mod Doing
mod Faithful
pub mod Going
pub mod Listed
mod Putting
