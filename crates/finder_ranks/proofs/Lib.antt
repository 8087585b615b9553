-- Laws that callers cite: what settles the contract, and how acts stay among the knowledge numbers. Then what only this crate's own proofs use: a
-- state taken apart, the marks, a push, a round, the whole spread.
pub mod Unique
mod ApartLaws
mod MarkLaws
mod Grown
mod Spots
mod Before
mod Pushes
mod AtSpots
mod Sweeps
mod Stages
mod FillLaws
