-- What a reader must believe of the ranks: `Ranks`, an entry and the acts at a state, and `Fills`, the certificate of a table that is filled. The
-- others are for the crate's own functions.
pub mod Ranks
pub mod Fills
pub mod Apart
pub mod Marks
pub mod Push
pub mod Round
pub mod Spread
