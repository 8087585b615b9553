-- What a reader must believe of the program: which outcome a shift has.
pub mod Outcomes
