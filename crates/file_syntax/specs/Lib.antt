-- What a reader must believe.
pub mod RingFile
-- What the scanner's contracts cite.
pub mod Words
pub mod Scanner
