pub mod OneParts
pub mod Placement
