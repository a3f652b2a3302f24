pub mod WordRows
pub mod Spelling
pub mod Meanings
