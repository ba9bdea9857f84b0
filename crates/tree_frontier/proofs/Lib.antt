pub mod Collecting
pub mod Unvisited
