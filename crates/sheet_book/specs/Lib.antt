-- What a reader must believe of a book that is made of a text of rules: its rights, its bytes, and the order of refusals.
pub mod Book
