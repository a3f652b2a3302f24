pub mod Forms
pub mod Literals
pub mod Answers
pub mod Spelled
