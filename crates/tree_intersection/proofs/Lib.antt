-- What the proofs of several functions use.
pub mod Marking
pub mod Growth
pub mod Groups
