pub mod Labelling
pub mod Updating
