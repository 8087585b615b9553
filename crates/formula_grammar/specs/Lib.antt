-- What a reader must believe of the text of a formula: its bytes (`Signs`) and what the first look over them finds (`Scans`), the sentences they make
-- and what each means (`Grammar`). `Automaton` is the same grammar, computed, with what the readers find.
pub mod Signs
pub mod Scans
pub mod Grammar
pub mod Automaton
