-- What a reader must believe of the plain finder: what `find` gives (`Finds`). The others are for the private functions: what is asked, the tries, the entries that
-- it remembers, and a gap among them.
pub mod Finds
pub mod Tries
pub mod Asked
pub mod Entries
pub mod Gaps
