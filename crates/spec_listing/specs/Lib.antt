-- The listing of a ring file.
pub mod Listing
