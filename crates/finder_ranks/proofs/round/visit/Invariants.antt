-- `finder_ranks::round::visit` meets its contract: each setting passed was pushed along, and the powers run with it.
use Prim.Native.Nat.{◌^◌}
use mathlib.Core.Path.{◌≡◌}
use Rattle.finder_ranks.specs.Round.{Visited}
use Rattle.finder_ranks.proofs.round.visit.Given as goal

abbrev pub invariant-loop-i : goal.invariant-loop-i
invariant-loop-i l = (l.seven ≡ 7 ^ l.i) × (l.three ≡ 3 ^ l.i) × Visited l.n l.set l.look l.h l.k l.i l.initial.ranks l.ranks
