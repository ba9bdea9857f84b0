-- The tree of the new group; the call.
pub mod Start
pub mod Call
