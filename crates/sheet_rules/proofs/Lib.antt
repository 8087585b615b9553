-- The laws of rules. Of one line: the form it has, what it does, and that the desk then holds what the rules have stated. Of a text: line by line, what
-- the functions need; how far a reading goes; with and without lines that are passed over, with more settings taken, and followed by another text;
-- examples; and that each function gives one thing alone.
pub mod FormLaws
pub mod StepLaws
pub mod FormulaLaws
pub mod SlotLaws
pub mod HoldLaws
pub mod DeskLaws
pub mod Turns
pub mod RuleTurns
pub mod ReadLaws
pub mod Bounds
pub mod MeaningLaws
pub mod Passing
pub mod Sizes
pub mod Followed
pub mod Examples
pub mod Unique
