pub mod Scan
pub mod Rule
pub mod Unused
