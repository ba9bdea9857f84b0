-- What a reader must believe, in the sequence of document 01.
pub mod Lists
pub mod CircularOrder
pub mod Layout
pub mod Tree
pub mod Form
pub mod ThreeNeighbours
pub mod FirstByte
pub mod TreeText
pub mod Reduce
pub mod Join
pub mod SeenFrom
pub mod Conflict
pub mod Aim
pub mod Circles
