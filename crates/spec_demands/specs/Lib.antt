-- The customer's three demands.
pub mod Demands
pub mod TestLoads
