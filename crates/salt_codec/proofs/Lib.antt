mod Bytes
mod Fronts
mod Lists
mod Orders
pub mod Puts
pub mod Puttable
pub mod Values
mod Words
