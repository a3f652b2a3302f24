pub mod Rooms
pub mod Renewals
pub mod Making
pub mod Migrations
