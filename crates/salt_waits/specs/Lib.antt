pub mod Graphs
pub mod Victims
pub mod Walks
