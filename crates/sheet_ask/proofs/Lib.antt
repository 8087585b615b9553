-- The laws of a question that is put to a book: the question is valid, and one alone; what the finder answers is printed; what each function gives; and
-- the theorems that others cite.
pub mod AskedQuestion
pub mod FoundLaws
pub mod AskLaws
pub mod TwoLaws
pub mod LegLaws
pub mod Theorems
