-- Laws that callers cite, and what settles the contracts; then the laws of the masks and of the walk that this crate's own proofs use.
pub mod GoalLaws
pub mod Unique
mod MaskLaws
mod WalkLaws
