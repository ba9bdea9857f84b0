pub mod Leaves
pub mod Reading
pub mod Sound
pub mod Same
pub mod Complete
pub mod Trees
