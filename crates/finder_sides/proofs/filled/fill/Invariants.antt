-- `finder_sides::filled::fill` meets its contract. The loop has filled the entries from the side up.
use mathlib.Core.Path.{◌≡◌}
use Prim.Native.Nat.{ℕ, ◌≤◌, ◌^◌}
use lib.ListN.{length, get_or}
use Rattle.finder_sides.specs.Inner.{FilledFrom}
use Rattle.finder_sides.proofs.filled.fill.Given as goal

abbrev pub invariant-loop-side : goal.invariant-loop-side
invariant-loop-side l = (l.side ≤ 3 ^ l.n) × (length l.table ≡ 2187) × FilledFrom l.n l.columns l.side l.table × ((s : ℕ) → 3 ^ l.n ≤ s → get_or l.table s 0 ≡ 0)
