-- What a reader must believe of a plan's text that is put to a book and a question text: what is said of it (`Checks`).
pub mod Checks
