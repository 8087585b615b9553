-- The laws of a question that is read. Of one line: what it does, and that the desk then holds what is asked. Of the whole: line by line, what the
-- functions need; what a question names; how far lines go and how they are counted on; lines that are passed over; and that `question_of` gives one
-- thing alone.
pub mod Zeros
pub mod DeskLaws
pub mod StepLaws
pub mod Turns
pub mod NameTurns
pub mod LineTurns
pub mod ReadLaws
pub mod Stated
pub mod SecondLaws
pub mod Unique
pub mod Fits
pub mod Counted
pub mod SecondFits
pub mod Passed
pub mod Examples
