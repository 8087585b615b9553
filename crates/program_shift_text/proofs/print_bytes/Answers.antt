-- `print_bytes` lends a room of its type's length, which fits every text that is printed.
use mathlib.Core.Path.{sym}
use Prim.Native.Nat.{ℕ}
use lib.ListN.{length-replicate}
use Rattle.program_shift_text.proofs.print_bytes.Goals as goal

pub slice_bounds-print_by-end : goal.slice_bounds-print_by-end
slice_bounds-print_by-end c = sym (length-replicate {A = ℕ} 2097152 0)

pub print_by-requires : goal.print_by-requires
print_by-requires c = sym (length-replicate {A = ℕ} 2097152 0)
