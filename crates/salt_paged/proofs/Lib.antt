pub mod Keyed
mod Logged
pub mod Paged
mod Sound
mod Checkpointed
mod Created
pub mod Standing
pub mod Framed
mod Fulls
mod Witnesses
mod Opened
mod Redone
mod Steps
pub mod Reopened
