-- Laws that callers cite: what the tables say of a knowledge number, the side that it shows, the powers of up to seven settings, how a place of a
-- table is filled, and what settles the contracts; then what only this crate's own proofs use.
pub mod Tables
pub mod Unique
pub mod CountLaws
pub mod Shown
mod FillLaws
mod Ones
mod ListLaws
mod PostLaws
mod GoalLaws
mod ToldLaws
