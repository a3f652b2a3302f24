pub mod Appended
pub mod Begun
pub mod Contents
mod Each
pub mod Framed
mod Hearing
mod Keeping
pub mod Moving
mod Pairing
mod Places
mod Saids
pub mod Snapshots
pub mod Unspent
pub mod Witness
