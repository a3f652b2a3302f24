mod Names
pub mod Copied
mod Created
mod Entries
pub mod Gathered
pub mod Keyed
pub mod Headers
pub mod Lasts
mod Logged
mod Making
pub mod Seeing
pub mod Seen
pub mod Standing
pub mod Framed
mod Witnesses
mod Opened
pub mod Steps
pub mod Reopened
