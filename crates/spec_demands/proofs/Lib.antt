pub mod Refusals
pub mod RoundTrip
pub mod ThreeNeighbours
pub mod EmptyGroups
pub mod Places
pub mod Racks
pub mod Main
