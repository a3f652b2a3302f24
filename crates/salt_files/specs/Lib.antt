pub mod FileDisks
