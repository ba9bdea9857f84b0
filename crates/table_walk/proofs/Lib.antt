pub mod Standing
pub mod Walking
pub mod Roots
