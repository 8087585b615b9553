-- The laws of a question text with one leg or two: where it is cut, what is read of it, what is promised of it, and texts computed.
pub mod CutLaws
pub mod LegLaws
pub mod Whole
pub mod Examples
