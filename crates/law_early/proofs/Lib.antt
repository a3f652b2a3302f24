pub mod HeldBack
pub mod Turning
pub mod Finding
