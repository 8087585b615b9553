-- The laws of words: cutting a text at its marks and joining it again, where a piece ends, what names show and how they are marked; and that each
-- answer is the only one.
pub mod Split
pub mod Pieces
pub mod Fronts
pub mod NameForms
pub mod NameLaws
pub mod Unique
