-- `finder_sides::goal::meet` meets its contract. The loop has stored the entries below the side.
use mathlib.Core.Path.{◌≡◌}
use Prim.Native.Nat.{ℕ, ◌<◌}
use lib.ListN.{length, get_or}
use Rattle.finder_sides.specs.Inner.{both_of}
use Rattle.finder_sides.proofs.goal.meet.Given as goal

abbrev pub invariant-loop-side : goal.invariant-loop-side
invariant-loop-side l = (length l.table ≡ 2187) × ((s : ℕ) → s < l.side → get_or l.table s 0 ≡ both_of (get_or l.a s 0) (get_or l.b s 0))
