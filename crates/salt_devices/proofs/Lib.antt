pub mod Stores
mod Kept
mod Limits
mod Filled
mod Started
mod Remembered
mod Loading
mod Netted
mod Standing
mod Renaming
mod Renamed
pub mod Sound
mod Entered
mod Booting
mod InHand
mod Committing
mod Decided
pub mod Answered
pub mod Known
mod Begun
mod Fitting
mod Migrating
mod Opening
mod Deciding
mod Anew
mod Refused
mod Within
mod Either
