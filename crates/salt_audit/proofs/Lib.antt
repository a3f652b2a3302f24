mod ByteRows
pub mod Growing
mod Naming
pub mod OneMore
mod Agreeing
pub mod Clashing
pub mod OneVerdict
mod Fewness
mod Stands
mod Judging
mod Behind
mod Defining
mod Firsts
mod Moving
mod Noted
mod Quiet
mod Serial
pub mod Amiss
pub mod Named
pub mod Marking
