-- What a reader must believe of a question text: what it asks (`Asked`), the form of each line and what it does (`Forms`, `LineSteps`), the meaning of
-- the whole (`Question`) and of a second leg's lines (`Second`); what the desk holds (`Desk`), and what `question_of` gives (`Reads`). `Places` and `Names` are for the functions of this crate
-- alone.
pub mod Asked
pub mod Forms
pub mod LineSteps
pub mod Question
pub mod Second
pub mod Desk
pub mod Reads
pub mod Places
pub mod Names
