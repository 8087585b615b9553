-- The laws of a sheet that is read: what `read` needs of its two readers; one pass over the lines, which means the same; of one line, its form both ways
-- and what it does; of the whole, the grammar, where 22 stands, and every refusal exactly; how far a meaning goes; and that `read` gives one thing alone.
pub mod ReadLaws
pub mod OnePass
pub mod Carried
pub mod TwoParts
pub mod LineByLine
pub mod WordForms
pub mod LineForms
pub mod NameLines
pub mod Named
pub mod FaultLaws
pub mod SoFar
pub mod GoodLines
pub mod Taken
pub mod Judged
pub mod Grammar
pub mod RefusedAt
pub mod Lines
pub mod Place
pub mod RefusedExactly
pub mod ByNumber
pub mod Texts
pub mod Examples
pub mod Bounds
pub mod Unique
