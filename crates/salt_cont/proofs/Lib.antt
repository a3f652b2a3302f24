pub mod Ahead
pub mod Numbers
pub mod Told
pub mod Joined
pub mod Defined
pub mod Limited
