pub mod Zeros
pub mod Keeping
pub mod Small
pub mod Going
pub mod Nodes
pub mod Records
pub mod Starting
pub mod Verdicts
