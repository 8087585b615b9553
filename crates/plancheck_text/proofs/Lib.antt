-- What others cite: what `read` settles (`Theorems`), and texts computed (`Examples`). Then the laws of a line and of a text, line by line (`LineLaws`,
-- `TextLaws`); that lines written as the grammar says are taken, and no others (`WrittenLines`, `ReadLines`, `PlanTexts`); the first stray line
-- (`StrayLines`); and that printed lines are written so (`PrintedLines`).
pub mod Theorems
pub mod Examples
pub mod LineLaws
pub mod TextLaws
pub mod WrittenLines
pub mod ReadLines
pub mod PlanTexts
mod StrayLines
mod PrintedLines
