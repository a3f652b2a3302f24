pub mod Same
pub mod Goes
pub mod Told
pub mod Awaiting
pub mod Steps
pub mod Finishing
pub mod Readable
pub mod Others
pub mod Resuming
pub mod Naming
pub mod Holding
mod Seen
