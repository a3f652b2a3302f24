mod AtEnd
pub mod AtParts
pub mod ByName
pub mod Calls
pub mod CanMoves
pub mod Cuts
pub mod Decided
pub mod Defining
pub mod Found
pub mod Loaded
pub mod LookUps
pub mod Made
pub mod Meant
pub mod Moving
pub mod Named
pub mod Numbering
pub mod OneHeld
pub mod Phases
pub mod Replaced
pub mod Shown
mod Ordered
pub mod States
