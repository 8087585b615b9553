-- The three demands, on one page; the same in full strength (Exactly); that the finder and the plan check agree; that a sheet is answered as its rules
-- and its question are (Texts); what the replay of a recorded shift says (Shifts); that the second finder
-- says what the first says (Plain); what is so of a salvaged book (Salvage); what held settings do to the answers (Held); what two legs
-- are answered (Legs); and that sets which change nothing never counted for the answers (Unchanged).
pub mod Demands
pub mod Agree
pub mod Exactly
pub mod Texts
pub mod Shifts
pub mod Plain
pub mod Salvage
pub mod Held
pub mod Legs
pub mod Unchanged
