-- The laws of plans and ranks. First acts and states, then layers and the bound on ranks, ranks, two systems compared, two legs, tables of ranks, the
-- plan written and its bytes, a system without the sets that change nothing (`Unchanged`, `LeavingOut`, `Without`), the check, what is so after a run,
-- demand 3 and its converse (`Twins`), and what shows a rank or a "cannot" by computation.
pub mod Acts
pub mod States
pub mod Bytes
pub mod Effects
pub mod RunLaws
pub mod Unknowns
pub mod Layers
pub mod Pigeonhole
pub mod Class
pub mod Bound
pub mod Ranks
pub mod Compare
pub mod Legs
pub mod Certificate
pub mod Table
pub mod Written
pub mod Size
pub mod Unchanged
pub mod LeavingOut
pub mod Without
pub mod Encode
pub mod Check
pub mod Faults
pub mod Pending
pub mod Accepted
pub mod After
pub mod Secret
pub mod Twins
pub mod Trap
pub mod Sample
