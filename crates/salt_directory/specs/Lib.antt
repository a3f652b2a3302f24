pub mod Bytes
pub mod Directories
pub mod Listing
pub mod Pages
pub mod Rows
pub mod Space
pub mod Loading
pub mod Halves
