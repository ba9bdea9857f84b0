-- What the proofs of several functions use, here and in the crates above.
pub mod Laws
pub mod OneItem
pub mod Reducing
pub mod Agree
pub mod Updates
pub mod Joined
