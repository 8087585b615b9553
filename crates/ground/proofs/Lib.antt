-- The laws that the other crates cite.
pub mod Bools
pub mod Search
pub mod Bits
pub mod Table
pub mod Digits
pub mod HighBits
pub mod Answers
pub mod Lists
