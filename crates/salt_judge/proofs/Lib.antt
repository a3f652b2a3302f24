mod Judging
mod Meeting
mod Reading
mod Searching
mod Settling
