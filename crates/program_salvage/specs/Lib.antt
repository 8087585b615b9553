-- What a reader must believe of the program: what it says of the settings that were closed.
pub mod Closed
