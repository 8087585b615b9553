-- What a reader must believe of printed answers: a plan's lines (`Listed`), the answers as text, and what a lent room holds (`Printed`). `Inner` is
-- for the private functions.
pub mod Listed
pub mod Inner
pub mod Printed
