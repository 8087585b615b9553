-- What others cite: what settles the contracts, what a plan's lines are and how long, text from the front of a room. Then the laws that this crate's own
-- proofs use.
pub mod Theorems
pub mod Lengths
pub mod Fitted
mod Shown
mod Lined
