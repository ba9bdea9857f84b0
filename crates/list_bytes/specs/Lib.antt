pub mod Appends
pub mod Rooms
