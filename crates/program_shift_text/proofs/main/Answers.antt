-- `main` lends a room of its type's length.
use mathlib.Core.Path.{sym}
use Prim.Native.Nat.{ℕ}
use lib.ListN.{length-replicate}
use Rattle.program_shift_text.proofs.main.Goals as goal

pub slice_bounds-print_named-end : goal.slice_bounds-print_named-end
slice_bounds-print_named-end c = sym (length-replicate {A = ℕ} 2097153 0)
