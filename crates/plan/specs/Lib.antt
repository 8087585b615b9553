-- What a reader must believe of plans: what a plan is and when it works, ranks, the same height by height (`Layers`), two legs (`Legs`), the plan written
-- and its bytes, a run on real settings and what it leaves (`After`), the judgement on a plan's bytes, and a system without the sets
-- that change nothing (`Without`). `Certificate` and `Pending` are inside: no public contract cites them.
pub mod Plans
pub mod Ranks
pub mod Layers
pub mod Legs
pub mod Bytes
pub mod Runs
pub mod After
pub mod Secret
pub mod Check
pub mod Without
pub mod Certificate
pub mod Pending
