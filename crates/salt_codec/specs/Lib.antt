pub mod Entries
pub mod EntryTaking
pub mod Moves
pub mod Taking
