-- What a reader must believe of a shift's two forms: a record and its words (`Records`), a line and the record that it gives (`Lines`), what a whole text and
-- a whole shift mean, and what is told (`Meaning`); and the grammar, by which a text is taken (`Grammar`).
pub mod Records
pub mod Lines
pub mod Meaning
pub mod Grammar
