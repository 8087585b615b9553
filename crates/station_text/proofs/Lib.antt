-- What others cite: what the contracts settle (`Theorems`), and texts computed (`Examples`). Then the laws of a line, of a text and of a shift's bytes (`LineLaws`,
-- `TextLaws`, `BytesLaws`) and of what is told (`ToldLaws`); that the words of a record give it, and no other line does (`RecordLines`); that texts written as the
-- grammar says are taken, and no others (`WrittenText`, `ReadText`); and the line of a record (`LineNumbers`).
pub mod Theorems
pub mod Examples
mod LineLaws
mod ToldLaws
mod TextLaws
mod BytesLaws
mod RecordLines
mod WrittenText
mod ReadText
mod LineNumbers
