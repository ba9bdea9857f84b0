pub mod Starts
pub mod Rings
