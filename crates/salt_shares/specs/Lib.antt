pub mod Shares
pub mod Prepares
pub mod Applies
