-- The outcome of each of the three answers.
pub mod Answers
