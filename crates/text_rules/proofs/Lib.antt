pub mod Digits
pub mod Seeing
