-- What a reader must believe of a question text that the plain finder answers: what is said of it (`Asks`).
pub mod Asks
