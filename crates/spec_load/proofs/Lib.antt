pub mod Circle
-- The theorems: each group of a load is a run of one circle, so all can hang together; its file is an accepted ring file; examples.
pub mod Groups
pub mod File
pub mod Examples
