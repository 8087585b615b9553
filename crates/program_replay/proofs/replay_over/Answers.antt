-- `replay_over` lends a room of its type's length.
use mathlib.Core.Path.{sym}
use Prim.Native.Nat.{ℕ}
use lib.ListN.{length-replicate}
use Rattle.program_replay.proofs.replay_over.Goals as goal

pub slice_bounds-replay_named-end : goal.slice_bounds-replay_named-end
slice_bounds-replay_named-end c = sym (length-replicate {A = ℕ} 2097153 0)
