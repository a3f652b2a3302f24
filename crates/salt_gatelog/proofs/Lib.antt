pub mod Blocks
pub mod Bytes
pub mod Steps
pub mod Appends
pub mod Creates
pub mod Frame
pub mod Payloads
pub mod Opens
pub mod Entries
mod Opening
