-- What a reader must believe of a question text with one leg or two: its meaning (`Legs`), and what `read_legs` gives (`Reads`).
pub mod Legs
pub mod Reads
