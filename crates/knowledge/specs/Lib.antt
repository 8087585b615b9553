-- What a reader must believe of knowledge: the knowledge number, what fits, how a table is judged and what is known, and when a goal is settled.
-- It knows no book: which acts a book's rules permit is crate question's.
pub mod Number
pub mod Fits
pub mod Judgement
pub mod Goal
