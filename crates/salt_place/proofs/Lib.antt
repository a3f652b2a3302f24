mod Together
pub mod Places
