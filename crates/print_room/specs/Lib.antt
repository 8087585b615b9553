-- What a reader must believe of text in a room: numbers in decimal, and what is written where.
pub mod Decimal
pub mod Wrote
