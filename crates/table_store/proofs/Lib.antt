-- What the proofs of several functions use.
pub mod Rowing
pub mod Forms
pub mod Standing
pub mod Erasing
