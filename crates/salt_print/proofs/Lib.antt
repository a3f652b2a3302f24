pub mod Schemas
