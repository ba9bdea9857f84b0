pub mod NamesLine
pub mod Stepping
