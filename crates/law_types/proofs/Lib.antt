pub mod AllTyped
mod Arguments
mod Blocks
mod Coming
mod Conts
mod Defining
mod Fields
pub mod Found
mod Judged
mod Rows
mod Runs
pub mod Showing
pub mod ShownWithin
mod Sound
mod Statements
mod States
pub mod Stays
mod Taken
mod Told
mod Values
pub mod WithinSchema
mod Words
