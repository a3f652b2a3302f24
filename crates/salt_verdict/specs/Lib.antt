pub mod After
pub mod Again
pub mod Goings
pub mod Ledger
pub mod Made
pub mod Variables
