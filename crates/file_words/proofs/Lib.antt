pub mod Matching
pub mod Counting
pub mod Room
pub mod Places
