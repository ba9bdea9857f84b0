-- The sample of document 01 is listed as document 02, No. 3, has it; what is printed of a line with no leaf, and of a kept one.
pub mod Sample
pub mod EmptyLines
pub mod KeptLines
