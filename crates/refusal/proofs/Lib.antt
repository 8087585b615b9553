-- The laws that the other crates cite.
pub mod OrderLaws
pub mod NumberLaws
pub mod Unique
