-- What a call promises of the records that it was lent.
pub mod Records
