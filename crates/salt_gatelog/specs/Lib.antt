pub mod Block
pub mod Log
pub mod Entry
pub mod Open
pub mod Pair
pub mod Answers
