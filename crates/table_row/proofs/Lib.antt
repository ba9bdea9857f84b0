pub mod Rows
pub mod Records
pub mod Writing
pub mod Entering
