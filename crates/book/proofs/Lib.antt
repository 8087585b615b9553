-- The laws of reading and writing a book, in this order: what the stores add up to, the refusals, the room, the round trips, the rules of a written
-- book; and the theorems that others cite.
pub mod WriteLaws
pub mod RefusalLaws
pub mod RoomLaws
pub mod RoundTrip
pub mod RuleLaws
pub mod Theorems
