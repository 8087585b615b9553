-- `check_plan` lends a room of its type's length.
use mathlib.Core.Path.{sym}
use Prim.Native.Nat.{ℕ}
use lib.ListN.{length-replicate}
use Rattle.program_check.proofs.check_plan.Goals as goal

pub slice_bounds-check_named-end : goal.slice_bounds-check_named-end
slice_bounds-check_named-end c = sym (length-replicate {A = ℕ} 524289 0)
