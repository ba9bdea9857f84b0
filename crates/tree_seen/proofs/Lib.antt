-- Where a leaf stands among the tokens; the items of a node.
pub mod Index
pub mod Items
-- A node of the path, and the walk down it.
pub mod Turning
pub mod Walking
