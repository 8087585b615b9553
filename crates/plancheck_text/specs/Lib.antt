-- What a reader must believe of a plan's text: the tests on its lines (`Lines`), what the whole text means and what `read` leaves (`Meaning`); and the grammar,
-- by which a text is taken (`Grammar`).
pub mod Lines
pub mod Meaning
pub mod Grammar
