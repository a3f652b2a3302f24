pub mod Judging
pub mod Openings
pub mod Reads
pub mod Loading
