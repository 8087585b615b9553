-- From what was read to what is said (`CheckLaws`); and what others cite: the theorems, each refusal exactly where it is due (`Exactly`), and which numbers are
-- given (`Numbers`).
mod CheckLaws
pub mod Theorems
pub mod Exactly
pub mod Numbers
