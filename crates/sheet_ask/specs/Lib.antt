-- What a reader must believe of a question text that is put to a book: the question that it asks, and what is printed (`Asks`). `Inner` is for the
-- private functions.
pub mod Asks
pub mod Inner
