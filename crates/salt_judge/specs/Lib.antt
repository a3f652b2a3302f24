pub mod Judging
pub mod Meetings
pub mod ReadAfter
pub mod Reads
pub mod Searching
