-- What a reader must believe of one block, in this order: its check; where a rule's table stands; what the head and a setting's block may hold;
-- the bytes that are stored. `Live` is inside: no public contract cites it.
pub mod Check
pub mod Rule
pub mod Kinds
pub mod Sealed
pub mod Live
