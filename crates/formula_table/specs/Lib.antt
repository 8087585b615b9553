-- A table while it is worked on, as two words.
pub mod Two
