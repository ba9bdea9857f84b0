pub mod Conflicting
pub mod Aiming
pub mod Telling
