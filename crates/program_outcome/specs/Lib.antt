-- What a reader must believe of outcomes: the digit of each, and which one an answer has.
pub mod Outcomes
