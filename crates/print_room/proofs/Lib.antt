-- `decimal` is decimal, how long it is, and text written piece by piece; and what settles the contracts.
pub mod Numerals
pub mod Decimals
pub mod Writing
pub mod Unique
