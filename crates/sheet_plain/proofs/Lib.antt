-- The laws of a question text that the plain finder answers: from what was read to what is said; and that it is one thing alone.
pub mod AskLaws
pub mod Theorems
