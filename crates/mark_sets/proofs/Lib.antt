pub mod Steps
pub mod Sizes
