pub mod Intersect
