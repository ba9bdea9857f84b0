pub mod RingFile
pub mod Reach
