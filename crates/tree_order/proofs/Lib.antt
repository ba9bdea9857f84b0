-- What the largest leaf of a tree in form sees.
pub mod Ends
pub mod Layouts
