-- The theorems of the plain finder, that its answer is one alone, and what its memory says: an entry bars the lower heights (`barred`), and a gap is
-- a "cannot" (`gap_cannot`). Then the laws of its functions: what the team may do, a try, the entries, a
-- search, the heights, a gap, and the answer to a valid question.
pub mod Theorems
pub mod Unique
pub mod EntryLaws
mod MayLaws
mod TryLaws
mod SearchLaws
mod HeightLaws
mod GapLaws
mod FindLaws
