pub mod Names
pub mod Rewordings
pub mod Cycles
pub mod AsEver
pub mod ContNames
