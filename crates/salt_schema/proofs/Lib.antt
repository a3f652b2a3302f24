pub mod Distinct
pub mod Keyed
pub mod FieldNames
pub mod Tables
pub mod Rows
pub mod Accepted
pub mod Firsts
