pub mod ActDone
pub mod Allowing
mod ApartCircles
mod BasesDone
mod BeginDone
mod Beginning
mod Calm
pub mod Counting
pub mod Done
pub mod EndsDone
mod Facts
pub mod Following
mod Found
mod HeldAlready
mod InTurn
pub mod LinesDone
mod Refusing
mod SettleDone
mod ShownDone
pub mod SoundFacts
mod Starting
pub mod Told
mod UnderWay
