-- The rule over numbers; a tree and the groups whose orders it allows; parts of lists.
pub mod Keeping
pub mod Places
pub mod Trees
pub mod Written
