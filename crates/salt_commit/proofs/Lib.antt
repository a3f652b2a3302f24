pub mod Beginning
mod Committed
mod Decided
mod Fields
pub mod Filled
mod Entered
mod Firsts
mod Making
mod Migrated
pub mod Opened
pub mod Opening
mod Ordered
mod Paired
mod Reading
pub mod Shared
pub mod Standing
mod Undecided
mod Units
mod Witness
mod Loaded
mod OnePart
mod Sound
mod Reopened
pub mod Limits
mod Restarted
mod Roomed
mod Voters
mod Voting
mod Votes
mod Telling
mod Turned
pub mod Ready
mod Sharing
mod Spare
