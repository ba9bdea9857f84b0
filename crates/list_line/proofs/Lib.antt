pub mod Lines
pub mod Printing
pub mod Last
