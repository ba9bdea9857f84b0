-- Laws of tests, and of lists.
pub mod Tests
pub mod ListLaws
pub mod Rearranged
pub mod Members
pub mod Numbers
pub mod NotAfter
-- Round the circle and on the line.
pub mod Contiguous
pub mod CircleAndLine
-- Laws of trees.
pub mod Laws
pub mod First
pub mod Parts
pub mod Mirror
pub mod PutSorted
pub mod Forms
pub mod Relabel
-- A tree seen from another leaf: circles read from another place; the circles that an edge allows, and those of the next edge.
pub mod Rotations
pub mod Edges
pub mod Steps
pub mod SeenFrom
-- The update: the linear and reduced forms of a node; what reducing keeps.
pub mod Gives
pub mod Fits
pub mod Classes
pub mod Reading
pub mod Linear
pub mod Gather
pub mod Reduced
pub mod ReduceOrders
pub mod ReduceForm
pub mod ReduceIdle
-- The theorems: the form tests, the standard order, the tree text, a restriction that joins, the fresh ring, the order tests, the conflict list,
-- empty groups, the aim, leaves in no restriction, racks, the marked circles, examples on racks.
pub mod FormTests
pub mod StandardOrders
pub mod Digits
pub mod TextTree
pub mod FirstByte
pub mod TextOnce
pub mod Joining
pub mod Fresh
pub mod Decide
pub mod Conflicts
pub mod EmptyGroups
pub mod Runs
pub mod Aims
pub mod Unused
pub mod Straight
pub mod StraightConflicts
pub mod StraightAims
pub mod Circles
pub mod RackExamples
