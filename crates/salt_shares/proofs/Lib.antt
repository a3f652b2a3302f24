pub mod Sharing
pub mod Applying
pub mod Standing
pub mod Undecided
