pub mod Stopping
pub mod Run
pub mod Counted
pub mod Armed
pub mod Ending
pub mod Telling
pub mod Serving
pub mod Loading
