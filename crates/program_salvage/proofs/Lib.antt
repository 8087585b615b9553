-- How the names of the settings that were closed are written one after the other, and that a salvaged book fits its room.
mod ClosedLaws
