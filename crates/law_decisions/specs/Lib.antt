pub mod Ending
pub mod Defining
pub mod Spelled
pub mod Naming
pub mod Examples
