-- The laws and theorems about formulas.
pub mod Broken
pub mod Answers
pub mod Unique
pub mod Small
pub mod ByTest
pub mod Computed
