pub mod Examples
pub mod Growing
pub mod Naming
pub mod Played
pub mod States
pub mod Typed
