-- The marked examples, proved.
pub mod Tests
pub mod Formulas
pub mod FormulaRows
pub mod Asked
pub mod Search
pub mod Found
pub mod Formed
pub mod OneAnswer
pub mod QuestionRows
pub mod SheetRows
pub mod Decided
pub mod Marked
