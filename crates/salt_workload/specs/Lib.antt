pub mod Counts
pub mod Places
pub mod Summary
pub mod SummaryRows
