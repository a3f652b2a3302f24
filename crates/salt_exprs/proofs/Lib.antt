pub mod Numbers
pub mod Steps
pub mod Nodes
pub mod Lists
