-- What a reader must believe of what is printed of a shift: what START says (`Start`), how the settings are written (`Settings`), the line of an act at fault
-- (`Faults`), the whole text (`Printed`), and what is told and left in the room (`Prints`). `Inner` is for the private functions.
pub mod Start
pub mod Settings
pub mod Faults
pub mod Printed
pub mod Prints
pub mod Inner
