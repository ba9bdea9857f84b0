pub mod Intersection
