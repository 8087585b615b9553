-- What a reader must believe of words: the pieces of a text, what a word names, the marks of what is named; and what a
-- line may do.
pub mod Words
pub mod Lines
pub mod Marks
pub mod Steps
