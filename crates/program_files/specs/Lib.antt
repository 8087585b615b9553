-- What is read, counted.
pub mod Input
