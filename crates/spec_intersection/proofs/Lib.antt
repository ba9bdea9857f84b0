-- Laws of lists, and of one item of a sequence.
pub mod Lists
pub mod Pieces
-- Leaves that stand together; a tree's groups do in its orders, and in no others.
pub mod Runs
pub mod Blocks
pub mod Groups
pub mod GroupOrders
-- Same orders, same tree.
pub mod Coarse
pub mod Unique
-- The theorems: the characteristic groups, trees that allow the same orders, the intersection, and its groups as one walk joins them; examples.
pub mod Characteristic
pub mod SameTrees
pub mod Intersections
pub mod GroupWalk
pub mod Examples
