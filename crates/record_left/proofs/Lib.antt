pub mod Trees
pub mod Left
pub mod Loaded
