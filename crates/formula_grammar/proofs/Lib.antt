-- The laws of a formula's text: each test on a byte as code makes it, and the first look; the automaton is the grammar, one text has one meaning, and
-- what the readers find.
pub mod ScanLaws
pub mod Automaton
pub mod Begins
pub mod Meaning
pub mod PartLaws
pub mod BrokenLaws
pub mod Unique
