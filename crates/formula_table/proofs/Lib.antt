-- The two words bit by bit, and what settles the contracts.
pub mod TwoWords
pub mod Unique
