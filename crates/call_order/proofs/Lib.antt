-- What the proofs of several functions use.
pub mod Circle
pub mod Laws
pub mod Sizes
pub mod Orders
pub mod Calls
