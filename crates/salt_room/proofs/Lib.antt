pub mod Lists
mod Apart
mod Begun
mod Behind
mod Formats
mod Long
mod Made
mod Newest
mod Rooms
pub mod Ready
mod Renewed
