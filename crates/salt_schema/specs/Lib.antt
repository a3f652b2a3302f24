pub mod Definitions
pub mod Schemas
pub mod Names
pub mod Kinds
pub mod Refusals
