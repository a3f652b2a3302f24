pub mod Calls
pub mod Collects
pub mod LineText
pub mod Lines
pub mod MemStreams
pub mod Sends
pub mod Streams
