-- What a reader must believe of the finder: what `find` gives (`Finds`), what an answer says (`Answers`), and what
-- `find_two` gives (`FindsTwo`). `Tables` is for the private functions.
pub mod Finds
pub mod Answers
pub mod FindsTwo
pub mod Tables
